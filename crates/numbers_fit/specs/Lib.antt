-- The rules on numbers, and the marks by which code tests them.
pub mod Tests
pub mod Marks
