-- sets of ICMPv6 types
pub mod Types
