pub mod Files
pub use Rattle.plan_files.specs as of_plan_files
pub use Rattle.plan_json.specs as of_plan_json
