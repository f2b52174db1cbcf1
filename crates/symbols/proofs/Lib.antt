mod AgainLaws
mod BlockLaws
