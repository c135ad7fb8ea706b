pub mod Acts
pub mod Collected
pub mod Consoles
pub mod Counting
mod Forgetting
pub mod FurtherReading
pub mod HookWords
pub mod Hooking
pub mod ItemWords
pub mod KeyTyping
mod LeftSignals
pub mod MadeSession
pub mod NextCalls
pub mod Saying
pub mod Stated
pub mod TopReading
pub mod Turning
pub mod Walks
pub mod WhosePrograms
pub mod for_laws
