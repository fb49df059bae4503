pub mod SameClauses
