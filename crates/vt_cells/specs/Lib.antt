pub mod AttrByte
pub mod Colours
pub mod Rendition
pub mod Width
