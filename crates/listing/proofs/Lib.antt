pub mod NetsPut
pub mod Reporting
