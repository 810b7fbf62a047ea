pub mod IntTables
