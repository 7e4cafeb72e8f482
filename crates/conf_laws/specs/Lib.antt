pub mod Rules
pub mod Around
pub mod ValueFlaws
pub mod TableFlaws
pub mod TableLimits
pub mod FlawOrder
pub mod TreeOrder
pub mod WalkOrder
