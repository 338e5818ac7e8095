-- Laws of columns and rows. Assumes nothing.
mod RowLaws
mod ColumnLaws
