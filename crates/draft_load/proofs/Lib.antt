mod Edits
mod LoadedAgain
