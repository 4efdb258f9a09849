pub mod Refusals
pub mod Devices
pub mod StdDevices
pub mod MemoryDevices
pub mod inner
