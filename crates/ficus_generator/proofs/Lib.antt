mod Growing
mod LineLaws
mod PathTexts
mod ScriptLines
