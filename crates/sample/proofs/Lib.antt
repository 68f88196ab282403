-- Laws of the passes, of samples in the caller's memory, of one answer, and of a block that is filled chunk by chunk.
pub mod ValuesLaws
mod PassLaws
pub mod SamplesLaws
mod StoredLaws
pub mod AnswerLaws
mod ChunkLaws
