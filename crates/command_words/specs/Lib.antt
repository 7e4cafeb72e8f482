pub mod CommandLine
pub mod LineFaults
pub mod ProgramWords
