pub mod Judged
pub mod MadeLines
pub mod OneFlat
pub mod Parted
pub mod PlanSound
pub mod Reached
pub mod Sound
