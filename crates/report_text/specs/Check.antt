pub mod Text
pub mod SummaryText
