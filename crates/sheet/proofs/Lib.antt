pub mod Accepted
pub mod Answers
pub mod Bodies
pub mod Laws
pub mod Numbers
pub mod Phase
pub mod ReadBack
pub mod Standing
