pub mod InOrder
pub mod NoCause
pub mod NoFault
pub mod OneByOne
pub mod Otherwise
