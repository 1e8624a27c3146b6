mod FromPlans
pub mod OneFront
