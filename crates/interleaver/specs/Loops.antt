-- What only the contracts of loops and the laws cite. Assumes nothing.
pub mod RowOrder
pub mod Stores
pub mod Walks
pub mod Moving
