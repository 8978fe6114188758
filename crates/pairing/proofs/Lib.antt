-- The laws that the proofs of `pairing` cite, and the proof that answers on times from 0 stay.
pub mod Instants
pub mod Rising
pub mod Counting
pub mod Marking
pub mod Turns
pub mod Answering
pub mod Before
