pub mod ByteBuffer
