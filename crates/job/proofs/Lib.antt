-- The laws of what `job` defines. Assumes nothing.
mod JobLaws
