-- W-206: how near the level at a thrust is to the exact value of B.3.
pub mod Distance
