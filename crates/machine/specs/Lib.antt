pub mod Admissions
pub mod ErrorText
pub mod History
pub mod MachineState
