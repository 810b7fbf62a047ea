pub mod PlanJson
