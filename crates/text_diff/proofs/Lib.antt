mod Cited
pub mod Cutting
pub mod Fronts
pub mod Sides
pub mod Printed
pub mod Sameness
pub mod Worked
