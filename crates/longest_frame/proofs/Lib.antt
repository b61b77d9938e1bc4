pub mod LongestFrame
