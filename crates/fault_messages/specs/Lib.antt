pub mod FaultSentences
