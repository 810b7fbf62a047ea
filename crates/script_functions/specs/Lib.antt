pub use Rattle.task_safety.specs as of_task_safety
