mod HandleParts
pub mod RawOuts
