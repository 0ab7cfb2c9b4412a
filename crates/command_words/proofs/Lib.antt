mod DefaultReads
pub mod Statuses
pub mod Found
pub mod Numbers
