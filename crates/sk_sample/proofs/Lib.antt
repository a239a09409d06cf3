mod Walks
mod Plain
mod Rows
mod Checked
mod Passed
