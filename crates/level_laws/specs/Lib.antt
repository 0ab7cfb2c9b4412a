pub mod Leads
pub mod Evidence
pub mod WriteOrders
pub mod Lasting
pub mod Causal
pub mod CausalFault
