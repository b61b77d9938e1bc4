mod PerformCases
mod ListParts
