-- What the contracts of `event` cite: a window, its stretch and its event; and what the text says of a stretch.
pub mod Window
pub mod Stretch
pub mod Event
pub mod Crossings
-- the code's own machinery, which a reader of the papers can leave out
pub mod Search
