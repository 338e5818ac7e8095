-- The laws of what `record_calls` defines. Assumes nothing.
mod CallLaws
