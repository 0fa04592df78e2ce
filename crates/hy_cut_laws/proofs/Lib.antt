mod Begun
mod CutRuns
