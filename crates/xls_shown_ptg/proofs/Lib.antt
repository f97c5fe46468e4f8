mod TokenFacts
mod ArrayFacts
