pub mod DefaultPlan
pub mod PlanAddresses
