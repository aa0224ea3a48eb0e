-- General mathematics, in the order in which it builds up; nothing here knows of letters, terms or forms.
pub mod Conditions
pub mod Numbers
pub mod Lists
pub mod Integers
pub mod Polynomials
