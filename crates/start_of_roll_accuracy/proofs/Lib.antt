-- The proof that the correction behind the start of roll is near the exact value of its formula, from the terms to the law.
pub mod Terms
pub mod Near
