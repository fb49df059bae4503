pub mod Partners
pub mod KindMeans
pub mod KindSum
pub mod OneWayFacts
pub mod FindingsLaws
