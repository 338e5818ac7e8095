-- The laws of what `record` defines. Assumes nothing.
mod ExpectedLaws
