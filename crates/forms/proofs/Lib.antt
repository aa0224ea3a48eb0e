-- Lemmas that belong to no one function, and the round trip.
pub mod Takers
pub mod BothForms
pub mod FormCalls
pub mod Forms
pub mod RoundTrip
