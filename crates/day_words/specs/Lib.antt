-- What the contracts of `day_words` cite: the words of a day, and the day that words stand for.
pub mod Words
pub mod Again
