-- The laws of what `bits` defines. Assumes nothing.
pub mod BoolLaws
pub mod NumberLaws
pub mod ListLaws
pub mod BitLaws
pub mod SumLaws
pub mod WordLaws
pub mod StoreLaws
mod DifferLaws
pub mod PermutationLaws
pub mod RangeLaws
