-- the flags that a state keeps are below 8
pub mod FewFlags
