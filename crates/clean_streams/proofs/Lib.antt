pub mod FiniteFacts
