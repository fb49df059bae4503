pub mod Findings
pub mod FindingsTable
pub mod OneWay
pub mod Open
