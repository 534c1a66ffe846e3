mod Answering
mod Requesting
mod Tracing
