pub mod WrongCharacters
