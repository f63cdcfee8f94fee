mod Going
mod Answering
