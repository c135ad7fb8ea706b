pub mod FreshLaws
pub mod KeptLaws
pub mod KindLaws
pub mod ReadLaws
pub mod SizeLaws
pub mod StandLaws
pub mod TurnLaws
pub mod for_laws
