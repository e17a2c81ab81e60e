-- The conditions of a sheet that go block by block, and where its samples stand.
pub mod Places
pub mod Torn
pub mod AllZero
pub mod Carried
pub mod Left
