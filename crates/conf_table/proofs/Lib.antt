pub mod RowLaws
pub mod WorkedTable
