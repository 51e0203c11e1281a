mod FileReads
mod JoinReplies
