mod Worked
pub mod Bounds
pub mod Chains
pub mod Sorting
pub mod Interval
pub mod Steps
pub mod RoundedUp
pub mod Anew
pub mod NewKernel
pub mod Division
pub mod Fitting
pub mod Rows
pub mod Order
pub mod SmallSteps
pub mod Barred
pub mod Marks
pub mod Residuals
pub mod Again
