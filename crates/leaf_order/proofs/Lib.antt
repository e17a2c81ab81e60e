-- What records say (Records), and a turn of the loop that looks for the next leaf (Turns).
pub mod Records
pub mod Turns
